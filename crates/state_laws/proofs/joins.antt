pub mod JoinLaws
pub mod JoinValid
pub mod KeyedRows
pub mod PickLaws
pub mod RaisedHorizon
pub mod StagedEntry
pub mod StagedJoin
pub mod StagedState
