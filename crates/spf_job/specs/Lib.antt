pub mod PlanMoves
