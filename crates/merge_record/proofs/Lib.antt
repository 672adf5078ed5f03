pub mod Codecs
pub mod Loop
pub mod TableCodecs
pub mod VersionCodecs
pub mod Wide
