-- The record that is opened is the next one of the table.
use Rattle.std.proofs.Common.{◌≡◌, ◌+◌, ◌-◌, ℕ, List, length, sym, ap, ◌∙◌, arith}
use Rattle.std.specs.Prelude.{Option, Some, None, Result, Ok, Err, IfOk, IfErr}
use Rattle.lucy_plan.specs.declared.parts.Call.{Call}
use Rattle.lucy_epochs.specs.declared.causes.By.{By}
use Rattle.lucy_epochs.specs.Records.{Record}
use Rattle.lucy_epochs.specs.Contributions.{Contribution}
use Rattle.lucy_epochs.specs.Lists.{last_of, AreNumbered}
use Rattle.lucy_epochs.specs.Rulings.{opens, rule}
use Rattle.lucy_cluster.specs.declared.error.ClusterError.{ClusterError}
use Rattle.lucy_cluster.specs.declared.error.ClusterError.TheVariants.{Apart, Seats, OutOfMemory}
use Rattle.lucy_cluster.specs.Causes.{IsUndecided, IsCause}
use Rattle.lucy_cluster.specs.Changes.{IsNextOf}
use Rattle.lucy_cluster.proofs.Suiting.{if_cases}

pub rule_next : (records : List Record) (epoch : Record) (parts : List Contribution) (wanted : Option (Call × By)) → epoch.number + 1 ≡ length records → IsNextOf records (rule epoch parts wanted)
rule_next records epoch parts None long = tt
rule_next records epoch parts (Some p) long = if_cases (IsNextOf records) (opens epoch parts p.0) _ _ (λ whole. long) (λ breaks. tt)

pub last_number : (records : List Record) (epoch last : Record) → AreNumbered records → last_of records ≡ Some last → last ≡ epoch → epoch.number + 1 ≡ length records
last_number records epoch last are at same =
    let number = are.numbered (length records - 1) last at in
    let some = are.some in
    let is = ap (λ (e : Record). e.number) same in
    omega (arith, number, some, is)

-- what is true of a result where it is there
pub ok_map : {A E : Type 0} (P Q : A → Type 0) (r : Result A E) → ((a : A) → P a → Q a) → IfOk r P → IfOk r Q
ok_map P Q (Ok a) f h = f a h
ok_map P Q (Err e) f h = tt

pub err_map : {A E : Type 0} (P Q : E → Type 0) (r : Result A E) → ((e : E) → P e → Q e) → IfErr r P → IfErr r Q
err_map P Q (Ok a) f h = tt
err_map P Q (Err e) f h = f e h

-- what is told of the table is a cause
pub undecided_cause : (epoch last : Record) (replicas : ℕ) (e : ClusterError) → IsUndecided epoch last e → IsCause replicas e
undecided_cause epoch last replicas (Apart ours theirs) h = λ same. h.2 (sym h.1 ∙ same ∙ h.0)
undecided_cause epoch last replicas (Seats place held) h = absurd h
undecided_cause epoch last replicas OutOfMemory h = tt
