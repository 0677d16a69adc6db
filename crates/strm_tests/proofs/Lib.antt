pub mod ToySteps
pub mod RigSteps
pub mod Fresh
pub mod PtyPuts
