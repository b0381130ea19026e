-- The lemmas behind the theorems, by subject.
pub mod Checked
pub mod RuleRow
pub mod Reader
