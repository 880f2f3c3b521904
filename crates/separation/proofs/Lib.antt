pub mod PairMeetings
