mod PlanMoves
mod PlanParts
