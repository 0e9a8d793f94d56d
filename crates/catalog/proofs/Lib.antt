pub mod RootLaws
pub mod RowLaws
pub mod NineLawful
