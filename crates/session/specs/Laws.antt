-- Laws about the definitions beside this file, a file for each topic.
pub mod Number
pub mod Gain
pub mod Event
pub mod Session
pub mod Decimal
pub mod Text
pub mod Start
pub mod Step
pub mod OneToOne
pub mod Tracked
pub mod Printed
pub mod Page
pub mod Pages
