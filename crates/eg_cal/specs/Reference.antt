-- The text of the reference file (C75).
use Rattle.std.specs.Prelude.{ℕ, List, ◌++◌, codes}

-- examples/calibration/reference.toml
abbrev pub reference_text : List ℕ
reference_text =
    codes "version = 1\n"
    ++ codes "[permit]\npedal = [0, 500, 1000]\nspeed = [800, 3000, 6000]\n"
    ++ codes "table = [[200, 100, 0], [1000, 1200, 900], [2000, 2400, 1800]]\nthreshold = 200\n"
    ++ codes "[torque]\nkt = 2500\nup = 1\ndown = 1\nlimit = 5\n"
    ++ codes "[pairs]\npedal = 50\nplate = 50\nload = 50\nspeed = 50\nup = 2\ndown = 1\n"
    ++ codes "limit = 10\n"
    ++ codes "[plant]\nslew = 50\nfill = 40\nangle = [0, 200, 1000]\ncharge = [40, 300, 1000]\n"
    ++ codes "[answers]\nperiod = 10\nfirst = 4\nlast = 7\nsend = 5\nup = 3\ndown = 1\nlimit = 9\n"
    ++ codes "[[question]]\nseed = 4660\npedal = [500, 500]\nplate = [200, 800]\n"
    ++ codes "load = [300, 300]\nspeed = [800, 800]\nraise = 0\ncheck = 65535\nused = 500\n"
    ++ codes "estimate = 1400\nallowed = 1000\nanswer = 8842\n"
    ++ codes "[[question]]\nseed = 42435\npedal = [1000, 0]\nplate = [0, 1000]\nload = [40, 120]\n"
    ++ codes "speed = [3000, 3000]\nraise = 0\ncheck = 65535\nused = 1000\nestimate = 400\n"
    ++ codes "allowed = 200\nanswer = 55753\n"
    ++ codes "[[question]]\nseed = 3855\npedal = [250, 700]\nplate = [100, 960]\n"
    ++ codes "load = [500, 490]\nspeed = [1900, 1900]\nraise = 600\ncheck = 64935\nused = 0\n"
    ++ codes "estimate = 65535\nallowed = 65334\nanswer = 44807\n"
    ++ codes "[[question]]\nseed = 32769\npedal = [1000, 200]\nplate = [1000, 0]\nload = [0, 0]\n"
    ++ codes "speed = [800, 6000]\nraise = 300\ncheck = 300\nused = 750\nestimate = 0\n"
    ++ codes "allowed = 0\nanswer = 19505\n"
