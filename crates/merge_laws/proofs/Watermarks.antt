-- A joined site's watermark at the publisher is no more than its own.
pub mod WatermarkLists
pub mod WatermarkSites
pub mod WatermarkModels
