-- The passes of the workers: used and joined.
pub mod Courses
pub mod WorkerViews
pub mod JoinedWorkers
