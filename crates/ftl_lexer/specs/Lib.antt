-- what is promised
pub mod Cut
pub mod Faults
pub mod Forms
pub mod Laws
pub mod Tokens
-- how it is done
pub mod inner
