pub mod Learning
