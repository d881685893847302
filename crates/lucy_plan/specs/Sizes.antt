-- How large a plan may be, and what is read and run beside it. The greatest factor and the greatest constant of a term stand in lucy_model.
use Rattle.std.specs.Prelude.{ℕ, ◌^◌, ◌==◌, if◌then◌else◌}
pub use Rattle.lucy_model.specs.Terms.{most_factor, most_constant}

-- the version of plans without counters
abbrev pub first_version : ℕ
first_version = 1

-- the version of plans with counters
abbrev pub second_version : ℕ
second_version = 2

-- the greatest size of a bound of a range
abbrev pub most_bound : ℕ
most_bound = 2 ^ 40

-- the leaves of a plan of a version
abbrev pub most_leaves : ℕ → ℕ
most_leaves version = if version == second_version then 128 else 64

-- the condition nodes of a plan
abbrev pub most_nodes : ℕ
most_nodes = 4096

-- the parts of a plan's text that are open at once
abbrev pub most_nesting : ℕ
most_nesting = 64

-- the bytes of a name in a plan's text
abbrev pub most_name : ℕ
most_name = 64

abbrev pub most_txns : ℕ
most_txns = 64

-- the arguments of a transaction
abbrev pub most_arguments : ℕ
most_arguments = 4

abbrev pub most_segments : ℕ
most_segments = 16

-- the points that the segments of a plan leave out
abbrev pub most_points : ℕ
most_points = 256

abbrev pub least_depth : ℕ
least_depth = 16

abbrev pub most_depth : ℕ
most_depth = 2048

-- the depth of a plan that names none
abbrev pub usual_depth : ℕ
usual_depth = 1024

-- the replicas that run a plan of a version
abbrev pub most_replicas : ℕ → ℕ
most_replicas version = if version == second_version then 32 else 16

-- the calls of a replica
abbrev pub most_calls : ℕ
most_calls = 4096

-- the bytes of a plan's text
abbrev pub most_plan_bytes : ℕ
most_plan_bytes = 2 ^ 20

-- the bytes of a work text
abbrev pub most_work_bytes : ℕ
most_work_bytes = 2 ^ 25

-- the bytes of a step script
abbrev pub most_step_bytes : ℕ
most_step_bytes = 2 ^ 20
