pub mod RisingRows
