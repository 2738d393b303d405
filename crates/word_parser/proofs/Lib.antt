mod Rows
mod WordForms
mod Steps
mod Fitting
mod OneWord
mod Moves
mod Accepted
mod Outcome
