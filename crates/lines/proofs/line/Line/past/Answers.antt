-- `lines::line::Line::past` meets its contract: what is stripped of a line stands behind the token.
use Rattle.std.proofs.lemmas.Bool.Decides.{Decides-eqb}
use Rattle.std.proofs.lemmas.Slice.Eq.{strip_prefix_is}
use Rattle.lines.proofs.line.Line.past.Goals as goal

pub returns-in_err-rest : goal.returns-in_err-rest
returns-in_err-rest c =
    let f = strip_prefix_is Decides-eqb c.args.self.rest.now c.args.token.now c.strip_prefix.result c.strip_prefix.ensures.cases in
    rw c.from_residual.ensures (rw c.in_err-rest.was at f)

pub returns : goal.returns
returns c =
    let f = strip_prefix_is Decides-eqb c.args.self.rest.now c.args.token.now c.strip_prefix.result c.strip_prefix.ensures.cases in
    rw c.in_ok-rest.was at f
