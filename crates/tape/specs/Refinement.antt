-- The run of a tape as the code makes it, in places, steps and parts of lines. This is no second rule: what a tape prints is said in
-- Running alone, and laws tie each step, and many of them, to it.
pub mod Parts
pub mod Steps
pub mod ManySteps
pub mod Machine
