-- The laws behind the proofs: of the rules led to one class, and of the scheme that has them.
pub mod RulesLaws
pub mod PartLaws
pub mod StayingLaws
