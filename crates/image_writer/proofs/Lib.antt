mod Puts
mod Answers
