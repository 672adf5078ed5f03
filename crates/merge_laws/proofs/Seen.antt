-- The greatest number of a site's changes that the publisher has met.
pub mod SeenDots
pub mod SeenSites
pub mod SeenChanges
pub mod SeenUploads
pub mod SeenKept
