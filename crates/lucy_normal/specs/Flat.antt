-- Lists of normal conditions without lists of the same kind in them.
use Rattle.std.specs.Prelude.{List, [], ◌∷◌, ◌++◌}
use Rattle.lucy_normal.specs.declared.normals.Normal.{Normal, All, Any}
use Rattle.lucy_normal.specs.declared.normals.Normal.TheViews.{out-Normal}
use Rattle.lucy_normal.specs.declared.normals.Normal.TheOpen.{Normal-F}

-- what stands for a part of an All: the parts of one that is an All, else the part
abbrev pub within_all : Normal → Normal-F Normal → List Normal
within_all p (Normal-F.Atom t) = p ∷ []
within_all p (Normal-F.All ps) = ps
within_all p (Normal-F.Any ps) = p ∷ []

-- the same of an Any
abbrev pub within_any : Normal → Normal-F Normal → List Normal
within_any p (Normal-F.Atom t) = p ∷ []
within_any p (Normal-F.All ps) = p ∷ []
within_any p (Normal-F.Any ps) = ps

abbrev pub flat_all : List Normal → List Normal
flat_all [] = []
flat_all (p ∷ ps) = within_all p (out-Normal p) ++ flat_all ps

abbrev pub flat_any : List Normal → List Normal
flat_any [] = []
flat_any (p ∷ ps) = within_any p (out-Normal p) ++ flat_any ps

-- a list of one part is that part
abbrev pub one_all : List Normal → Normal
one_all [] = All []
one_all (p ∷ []) = p
one_all (p ∷ q ∷ ps) = All (p ∷ q ∷ ps)

abbrev pub one_any : List Normal → Normal
one_any [] = Any []
one_any (p ∷ []) = p
one_any (p ∷ q ∷ ps) = Any (p ∷ q ∷ ps)

-- all of the parts, and any of them
abbrev pub all_of : List Normal → Normal
all_of ps = one_all (flat_all ps)

abbrev pub any_of : List Normal → Normal
any_of ps = one_any (flat_any ps)
