-- Demand 3, whole: what holds of every division and of every list of calls from a fresh depot, carried to every report; proofs/Demand3 has its proof.
use Rattle.steps.specs.Theorem.{Division}
use Rattle.depot.specs.Demand.{CallsHold, RunsHold, EditionFree}
use Rattle.reporting.specs.Demand.{ReportsHold, ReportEditionFree}

pub record Demand3 : Type 0 where
  -- no step fails its claim, step 32 is the exact quotient rounded once, the quotient is marked by where it lies against the exact one, and 7 and 8 never
  -- leave a division
  pub division : Division
  -- the book, the counts, the replies, the figures and the bracket of every list of calls
  pub depot : CallsHold
  -- and the same of every run of the entries themselves
  pub entries : RunsHold
  -- request E3: the counts, sums and figures do not depend on the editions of the blocks
  pub editions : EditionFree
  -- nor does what is printed
  pub report_editions : ReportEditionFree
  -- what the report of any input prints is what the book says, and its figures bracket the exact mean
  pub reports : ReportsHold
