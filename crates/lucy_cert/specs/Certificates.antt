-- What a certificate holds, and what items make of it.
use Rattle.std.specs.Prelude.{ℕ, List, [], ◌∷◌, ◌++◌, map, Option, Some, None, if◌then◌else◌, Bool}
use Rattle.std.specs.List.{list_all}
use Rattle.lucy_cert.specs.declared.entries.Item.{Item}
use Rattle.lucy_cert.specs.declared.entries.Item.TheVariants as item
use Rattle.lucy_cert.specs.declared.names.PartName.{PartName}
use Rattle.lucy_cert.specs.declared.steps.Proof.{Proof}
use Rattle.lucy_cert.specs.declared.steps.ProofStep.{ProofStep}
use Rattle.lucy_cert.specs.Names.{is_before}

-- a part's name and its proof
abbrev pub Part : Type 0
Part = PartName × Proof

pub record Contents : Type 0 where
  pub parts : List Part
  pub live : Option ℕ

abbrev pub contents : List Part → Option ℕ → Contents
contents parts live = record { parts = parts; live = live }

abbrev pub part_names : List Part → List PartName
part_names parts = map (λ (p : Part). p.0) parts

-- ---- items

-- no part and no step yet
abbrev pub nothing : Contents
nothing = contents [] None

abbrev pub proof : List ProofStep → Proof
proof steps = record { steps = steps }

abbrev pub come_before : PartName → List Part → Bool
come_before name parts = list_all (λ n. is_before n name) (part_names parts)

-- a certificate with one more part; none where its name does not come behind those of the others
abbrev pub with_proof : PartName → Proof → Contents → Option Contents
with_proof name p c = if come_before name c.parts then Some (contents (c.parts ++ (name, p) ∷ []) c.live) else None

-- a part without a step behind the others, where its name comes behind theirs
abbrev pub with_part : PartName → List Part → List Part
with_part name parts = if come_before name parts then parts ++ (name, proof []) ∷ [] else parts

abbrev pub longer : ProofStep → Part → Part
longer s p = (p.0, proof (p.1.steps ++ s ∷ []))

-- a step behind those of the last part
abbrev pub with_step : ProofStep → List Part → List Part
with_step s [] = []
with_step s (p ∷ []) = longer s p ∷ []
with_step s (p ∷ q ∷ ps) = p ∷ with_step s (q ∷ ps)

-- what an item makes of a certificate
abbrev pub add_item : Contents → Item → Contents
add_item c (item.Live live) = contents c.parts live
add_item c (item.Part name) = contents (with_part name c.parts) c.live
add_item c (item.Step s) = contents (with_step s c.parts) c.live
