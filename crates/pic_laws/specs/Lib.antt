-- What is proved of the whole controller.
pub mod Orders
