pub mod Tower
