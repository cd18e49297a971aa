pub mod Events
pub mod Histories
pub mod SameEvents
pub mod EventsOfOneMore
pub mod Regrouping
