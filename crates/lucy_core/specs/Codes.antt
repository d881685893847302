-- How a world is told by numbers.
use Rattle.std.specs.Prelude.{◌≡◌, ◌⊎◌, ℕ, Bool, List, refl}
use Rattle.std.specs.Coded.{Coded, code_by, coded×, coded⊎, coded_ℕ, coded_bool, coded_list}
use Rattle.std.proofs.Common.{inl, inr}
use base.Stored.{coded_unit}
use Rattle.lucy_epochs.specs.Records.{Record, record_code}
use Rattle.lucy_epochs.specs.Rulings.{Ruling, ruling_code}
use Rattle.lucy_replica.specs.Replicas.{Replica, Message}
use Rattle.lucy_replica.specs.Codes.{message_code, replica_code}
use Rattle.lucy_core.specs.Worlds.{Course, Idle, Freezing, Decided, World}

-- the parts of a course, by how far it is
abbrev pub ToldCourse : Type 0
ToldCourse = Unit {0} ⊎ ((ℕ × List Bool) ⊎ (ℕ × (Ruling × List Bool)))

abbrev pub told_course : Course → ToldCourse
told_course Idle = inl tt
told_course (Freezing coordinator frozen) = inr (inl (coordinator, frozen))
told_course (Decided coordinator ruling frozen) = inr (inr (coordinator, (ruling, frozen)))

abbrev pub course_of_told : ToldCourse → Course
course_of_told (inl _) = Idle
course_of_told (inr (inl p)) = Freezing p.0 p.1
course_of_told (inr (inr p)) = Decided p.0 p.1.0 p.1.1

pub course-told : (course : Course) → course_of_told (told_course course) ≡ course
course-told Idle = refl
course-told (Freezing coordinator frozen) = refl
course-told (Decided coordinator ruling frozen) = refl

abbrev pub course_code : Coded Course
course_code =
    code_by ToldCourse (coded⊎ coded_unit (coded⊎ (coded× coded_ℕ (coded_list coded_bool)) (coded× coded_ℕ (coded× ruling_code (coded_list coded_bool)))))
    told_course course_of_told course-told

abbrev pub world_code : Coded World
world_code =
    code_by (List Record × (List Message × (Course × List Replica))) (coded× (coded_list record_code) (coded× (coded_list message_code) (coded× course_code (coded_list replica_code))))
    (λ w. (w.records, (w.packets, (w.course, w.replicas)))) (λ p. record { records = p.0; packets = p.1.0; course = p.1.1.0; replicas = p.1.1.1 }) (λ _. refl)
