-- Where the rings of the tests' network stand.
use Rattle.std.specs.Prelude.{List, [], ◌∷◌}
use Rattle.sb_member.specs.declared.joint.Joint.{Joint}

-- The host is node 0, the router node 1 and the device node 2. Of the router's ports that of requests comes first, and so of the rings that come into it.
abbrev pub sample_joints : List Joint
sample_joints = record { from = 0; out = 0; to = 1; into = 0 }
    ∷ record { from = 1; out = 1; to = 0; into = 0 }
    ∷ record { from = 1; out = 0; to = 2; into = 0 }
    ∷ record { from = 2; out = 0; to = 1; into = 1 }
    ∷ []
