pub mod Word
pub mod AnswerList
pub mod ReplyList
