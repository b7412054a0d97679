pub mod Names
pub mod ValueRuns
