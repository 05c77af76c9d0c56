-- A request as the head of its message and the bytes after it give it.
pub use Rattle.reg_messages.specs.Messages.{request_of}
