pub mod Suspends
