pub mod FaultOf
