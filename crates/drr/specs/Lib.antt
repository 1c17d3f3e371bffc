-- Document 01 as definitions, in its order. Facts.antt has soundness once more, as facts. Paper.antt has
-- document 000's listing, Account.antt the account of request E1, Before.antt what E2's overhead moved, without it.
pub mod Limits
pub mod State
pub mod Sound
pub mod Facts
pub mod Answers
pub mod Arrival
pub mod Pick
pub mod Computed
pub mod Setup
pub mod Figures
pub mod Floor
pub mod Account
pub mod Paper
pub mod Before
