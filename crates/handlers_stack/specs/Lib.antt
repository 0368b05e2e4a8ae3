-- The rules of the stack of handlers.
pub mod Stacks
