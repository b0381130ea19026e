-- The law by which the program's core is proved.
pub mod ComposeLaws
