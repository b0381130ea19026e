-- Read in this order, after crates `order` and `step_spec`: the fill along an order, the figure, the whole step, parts of the answer.
pub mod Fill
pub mod Figure
pub mod Step
pub mod Answer
pub mod Laws
