mod SoloBundle
