mod Head
mod Turns
mod Passes
mod Answers
