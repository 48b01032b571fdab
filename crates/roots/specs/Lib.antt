-- Polynomials in one variable over a real closed field: values, slopes, intervals, and what is proved of their roots.
pub mod Value
pub mod Interval
pub mod Analysis
