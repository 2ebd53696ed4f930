pub mod TestCalls
