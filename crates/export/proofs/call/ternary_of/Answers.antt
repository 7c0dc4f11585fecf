-- `export::call::ternary_of` meets its contract, by the accuracy's case.
use Rattle.export.specs.Calls.{ternary_of}
use Rattle.export.proofs.call.ternary_of.Goals as goal

pub returns-in-Below : goal.returns-in-Below
unfolding ternary_of
returns-in-Below c = rw c.in-Below.is

pub returns-in-Exact : goal.returns-in-Exact
unfolding ternary_of
returns-in-Exact c = rw c.in-Exact.is

pub returns-in-Above : goal.returns-in-Above
unfolding ternary_of
returns-in-Above c = rw c.in-Above.is
