mod Answers
mod InForce
mod Nulls
mod Retained
mod Standing
mod Steps
