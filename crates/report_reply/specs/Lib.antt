pub mod ReportReply
