-- What `All` and `Any` have in common.
use Rattle.std.specs.Prelude.{Bool, true, false, List}
use Rattle.lucy_normal.specs.declared.joints.Joint.{Joint}
use Rattle.lucy_normal.specs.declared.joints.Joint.TheVariants as joint
use Rattle.lucy_normal.specs.declared.normals.Normal.{Normal, All, Any}
use Rattle.lucy_normal.specs.declared.normals.Normal.TheViews.{out-Normal}
use Rattle.lucy_normal.specs.Flat.{within_all, within_any, flat_all, flat_any, one_all, one_any}

-- what stands for a part of a joint: the parts of one that is joined likewise, else the part
abbrev pub within : Joint → Normal → List Normal
within joint.All p = within_all p (out-Normal p)
within joint.Any p = within_any p (out-Normal p)

-- the same of several
abbrev pub flat : Joint → List Normal → List Normal
flat joint.All ps = flat_all ps
flat joint.Any ps = flat_any ps

-- a list of one part is that part
abbrev pub one : Joint → List Normal → Normal
one joint.All ps = one_all ps
one joint.Any ps = one_any ps

-- all of the parts, or any of them
abbrev pub joined : Joint → List Normal → Normal
joined j ps = one j (flat j ps)

-- what joins the two sides of an implication, for true, and those of its negation, for false
abbrev pub implied_joint : Bool → Joint
implied_joint true = joint.Any
implied_joint false = joint.All

-- the other of the two
abbrev pub other : Joint → Joint
other joint.All = joint.Any
other joint.Any = joint.All

-- a list of parts, however many
abbrev pub list_of : Joint → List Normal → Normal
list_of joint.All ps = All ps
list_of joint.Any ps = Any ps
