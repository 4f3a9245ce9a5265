pub mod RcteBodies
pub mod MacroBodies
pub mod ValueBodies
