pub mod BatchLines
pub mod Examples
pub mod FeedLine
pub mod FeedText
pub mod PlainText
pub mod ReadSteps
