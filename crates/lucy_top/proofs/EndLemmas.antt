-- The end of a whole call, from what its command said and what was written.
use Rattle.std.proofs.Common.{◌≡◌, ℕ, List, [], ◌∷◌, ◌++◌, Option, Some, Result, Ok, Err, inl, inr, ◌⊎◌, sym, subst, ◌∙◌, arith}
use Rattle.lucy_io.specs.Inputs.{Entry, Told}
use Rattle.lucy_top.specs.Ends.{Follows, FollowsBy, Whole, CutOff, NoMemory, Ends}
use Rattle.lucy_top.specs.Script.{Script, Ran}
use Rattle.lucy_top.specs.Verdicts.{Verdict}
use Rattle.lucy_io.specs.Faults.{Rose}
use Rattle.lucy_io.specs.declared.inputs.Ending.{Ending}
use Rattle.lucy_top.specs.Causes.{Added, LastIs, AreInOrder, Asks, NoneFailed, ComesTo, IsAnswered}
use Rattle.lucy_top.proofs.CauseLemmas.{comes_so, GoesWith, last_goes_with, names_last, ran_small, ran_in_order, part_in_order}
use Rattle.lucy_top.specs.Writing.{Writes, FinishesBy, Finishes}
use Rattle.lucy_top.specs.declared.said.Said.{Said}
use Rattle.lucy_top.specs.declared.said.Stop.{Stop}
use Rattle.lucy_top.specs.declared.said.Stop.TheVariants as stops

said_way : (script : Script) (told : Option Told) (added : List Entry) (s : Said) (h0 h1 : Option (List ℕ)) (f0 f1 status : ℕ) → Ran script told added s.status s.text.items → Writes s h0 h1 f0 f1 status
    → Whole script told added h0 h1 status ⊎ CutOff script told added h0 h1 f0 f1 status ⊎ NoMemory script told added h0 h1 status
said_way script told added s h0 h1 f0 f1 status ran (inl w) = inl (record { text = s.text.items; ran = rw w.0 ran; written = w.1 })
said_way script told added s h0 h1 f0 f1 status ran (inr cut) = inr (inl (record { status_is = cut.status_is; meant = s.status; text = s.text.items; front = cut.front; ran = ran; is_front = cut.is_front; written = cut.written; rose = cut.rose }))

way_by : (script : Script) (told : Option Told) (added : List Entry) (said : Result Said Stop) (h0 h1 : Option (List ℕ)) (f0 f1 status : ℕ) → FollowsBy script told added said → FinishesBy said h0 h1 f0 f1 status
    → Whole script told added h0 h1 status ⊎ CutOff script told added h0 h1 f0 f1 status ⊎ NoMemory script told added h0 h1 status
way_by script told added (Ok s) h0 h1 f0 f1 status ran by = said_way script told added s h0 h1 f0 f1 status ran by
way_by script told added (Err (stops.Ended s)) h0 h1 f0 f1 status ran by = said_way script told added s h0 h1 f0 f1 status ran by
way_by script told added (Err stops.OutOfMemory) h0 h1 f0 f1 status ran by = inr (inr (record { status_is = by.0; ran = ran; unwritten = by.1 }))

pub ends_so : (script : Script) (told : Option Told) (old new : List Entry) (said : Result Said Stop) (h0 h1 : Option (List ℕ)) (f0 f1 status : ℕ) → Follows script told old new said → Finishes said h0 h1 f0 f1 status → Ends script told old new h0 h1 f0 f1 status
ends_so script told old new said h0 h1 f0 f1 status follows finishes = record { added = follows.added; journal = follows.journal; way = way_by script told follows.added said h0 h1 f0 f1 status follows.answer finishes.by }

pub same_added : (old a b : List Entry) → old ++ a ≡ old ++ b → a ≡ b
same_added [] a b e = e
same_added (x ∷ xs) a b e = same_added xs a b cc

-- what was written as a whole, with a last entry that ended so
pub last_is_so : (y : Ending) (script : Script) (told : Option Told) (old new : List Entry) (h0 h1 : Option (List ℕ)) (f0 f1 status : ℕ) → Ends script told old new h0 h1 f0 f1 status → GoesWith y status → (status ≡ 4) ⊎ (status ≡ 5) → Added old new (LastIs y)
last_is_so y script told old new h0 h1 f0 f1 status e goes late = elim e.way [
  | inl w ↦ record { added = e.added; journal = e.journal; holds = names_last script told e.added status w.text y w.ran goes late }
  | inr r ↦ elim r [ inl cut ↦ absurd (elim late [ inl a ↦ omega (arith, a, cut.status_is) | inr b ↦ omega (arith, b, cut.status_is) ]) | inr short ↦ absurd (elim late [ inl a ↦ omega (arith, a, short.status_is) | inr b ↦ omega (arith, b, short.status_is) ]) ]
]

pub last_is_only : (y : Ending) (script : Script) (told : Option Told) (old new : List Entry) (h0 h1 : Option (List ℕ)) (f0 f1 status : ℕ) → Ends script told old new h0 h1 f0 f1 status → Added old new (LastIs y) → GoesWith y status ⊎ (status ≡ 6) ⊎ (status ≡ 7)
last_is_only y script told old new h0 h1 f0 f1 status e a =
    let last = subst (LastIs y) (same_added old a.added e.added (sym a.journal ∙ e.journal)) a.holds in
    elim e.way [
      | inl w ↦ inl (last_goes_with script told e.added status w.text y w.ran last)
      | inr r ↦ elim r [ inl cut ↦ inr (inl cut.status_is) | inr short ↦ inr (inr short.status_is) ]
    ]

pub six_so : (script : Script) (told : Option Told) (old new : List Entry) (h0 h1 : Option (List ℕ)) (f0 f1 status : ℕ) → Ends script told old new h0 h1 f0 f1 status → status ≡ 6 → Rose f0 f1
six_so script told old new h0 h1 f0 f1 status e is = elim e.way [
  | inl w ↦ absurd (omega (arith, ran_small script told e.added status w.text w.ran))
  | inr r ↦ elim r [ inl cut ↦ cut.rose | inr short ↦ absurd (omega (arith, short.status_is)) ]
]

pub order_so : (names : List (List ℕ)) (script : Script) (told : Option Told) (old new : List Entry) (h0 h1 : Option (List ℕ)) (f0 f1 status : ℕ) → Asks names script → Ends script told old new h0 h1 f0 f1 status → Added old new (AreInOrder names)
order_so names script told old new h0 h1 f0 f1 status which e = record {
  added = e.added;
  journal = e.journal;
  holds = elim e.way [
    | inl w ↦ ran_in_order names script told e.added status w.text which w.ran
    | inr r ↦ elim r [ inl cut ↦ ran_in_order names script told e.added cut.meant cut.text which cut.ran | inr short ↦ part_in_order names script told e.added which short.ran ]
  ];
}

pub complete_so : (script : Script) (t : Told) (v : Verdict) (told : Option Told) (old new : List Entry) (h0 h1 : Option (List ℕ)) (f0 f1 status : ℕ) → Ends script told old new h0 h1 f0 f1 status
    → told ≡ Some t → ComesTo script t v → Added old new NoneFailed → (¬ (Rose f0 f1)) → IsAnswered v h0 h1 status
complete_so script t v told old new h0 h1 f0 f1 status e known comes a still =
    let kept = subst NoneFailed (same_added old a.added e.added (sym a.journal ∙ e.journal)) a.holds in
    elim e.way [
      | inl w ↦ inl (w.text, comes_so script t v e.added status w.text comes kept (subst (λ (o : Option Told). Ran script o e.added status w.text) known w.ran), w.written)
      | inr r ↦ elim r [ inl cut ↦ absurd (still cut.rose) | inr short ↦ inr short.status_is ]
    ]
