pub mod Common
pub mod OpenCode
pub mod AssembledCode
pub mod FedScripts
pub mod RepliedThreads
pub mod KeptThreads
pub mod IdleThreads
