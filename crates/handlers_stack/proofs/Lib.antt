-- Laws of the stack of handlers.
pub mod Stacks
