mod Masks
mod Laying
mod Filing
mod Walking
mod Following
mod Turns
mod Answers
