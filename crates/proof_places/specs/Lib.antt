pub mod Borne
pub mod Places
