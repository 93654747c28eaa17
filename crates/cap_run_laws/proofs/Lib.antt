pub mod RunsMean
