pub mod Decimals
pub mod Examples
pub mod LineOf
pub mod LineSteps
pub mod Reply
pub mod ReplySteps
pub mod ScriptLine
pub mod ScriptWord
