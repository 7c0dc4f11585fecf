-- Demand 3, whole, from the theorems on division, on lists of calls, on editions and on reports.
use Rattle.steps.proofs.Theorem.{division}
use Rattle.depot.proofs.Demand.{calls_hold, runs_hold}
use Rattle.depot.proofs.Editions.{edition_free}
use Rattle.reporting.proofs.Demand.{reports_hold}
use Rattle.reporting.proofs.Editions.{report_edition_free}
use Rattle.demand.specs.Demand3.{Demand3}

pub demand_3 : Demand3
demand_3 = record {
  division = division;
  depot = calls_hold;
  entries = runs_hold;
  editions = edition_free;
  report_editions = report_edition_free;
  reports = reports_hold;
}
