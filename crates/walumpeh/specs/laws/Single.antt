-- That picking may be asked has one proof at most, so that a type may keep it.
use Rattle.std.specs.Prelude.{ℕ}
use Rattle.std.proofs.Props.{props}
use Rattle.operators.specs.declared.table.Rule.{Rule}
use Rattle.operators.specs.declared.table.Rule.TheVariants.{Free, One, Both, Equal, Choice, Sum, Part, Longer, Narrow}
use Rattle.operators.specs.Table.{RuleMet}
use Rattle.picking.specs.declared.spot.Spot.{Spot}
use Rattle.picking.specs.Spot.{Asked}

rule_single : (r : Rule) (w wa wb wc b : ℕ) → IsProp (RuleMet r w wa wb wc b)
rule_single Free w wa wb wc b = hlevel props
rule_single One w wa wb wc b = hlevel props
rule_single Both w wa wb wc b = hlevel props
rule_single Equal w wa wb wc b = hlevel props
rule_single Choice w wa wb wc b = hlevel props
rule_single Sum w wa wb wc b = hlevel props
rule_single Part w wa wb wc b = hlevel props
rule_single Longer w wa wb wc b = hlevel props
rule_single Narrow w wa wb wc b = hlevel props

pub asked_single : (S : Spot) (i t : ℕ) → IsProp (Asked S i t)
asked_single S i t = hlevel (rule_single, props)
