pub mod ReportRows
